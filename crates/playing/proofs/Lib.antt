-- The laws that the functions' proofs cite, each file resting on those above it.
pub mod Said
pub mod Openings
pub mod Rows
pub mod Streams
pub mod Played
pub mod Orders
pub mod Phrased
pub mod Bounded
pub mod Tables
pub mod LetterSpans
pub mod Writing
pub mod Together
pub mod OrderPlayed
pub mod RowPerformed
pub mod Operations
pub mod Theorems

-- The laws that the functions' proofs cite, each file resting on those above it.
pub mod Joining
pub mod Waiting
pub mod Telling
pub mod Shapes
pub mod WrittenAgain
pub mod Shaping
pub mod Ordering
pub mod Sizing
pub mod Flattened
pub mod TrackFlattened
pub mod Operations
pub mod Theorems

-- The theorems, and the laws below them, each file resting on those above it.
pub mod Sequence
pub mod WrittenReads
pub mod Fitting
pub mod ReadWrites
pub mod SameBytes
pub mod GivenFit
pub mod ItemsBack
pub mod WordBack

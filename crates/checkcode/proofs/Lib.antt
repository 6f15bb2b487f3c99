-- The laws that the functions' proofs cite, each file resting on those above it.
pub mod Linear
pub mod Parts
pub mod Remainders
pub mod Slices

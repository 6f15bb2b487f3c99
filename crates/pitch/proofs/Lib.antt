-- The laws that the functions' proofs cite, each file resting on those above it.
pub mod Signed
pub mod Counts

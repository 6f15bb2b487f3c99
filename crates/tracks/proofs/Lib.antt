-- The laws that the functions' proofs cite, each file resting on those above it.
pub mod Answers
pub mod Parts
pub mod Bodies
pub mod Stages

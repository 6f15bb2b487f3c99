-- The laws that the functions' proofs cite, each file resting on those above it.
pub mod Matches
pub mod Ahead
pub mod Passing
pub mod Setup
pub mod Standing
pub mod Addresses
pub mod Reading
pub mod Within

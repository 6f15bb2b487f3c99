-- The laws that the functions' proofs cite, each file resting on those above it.
pub mod Letters
pub mod Data
pub mod Ahead
pub mod Cases
pub mod Ordering
pub mod LastList
pub mod Standing
pub mod Saying
pub mod Holding
pub mod Naming
pub mod Within

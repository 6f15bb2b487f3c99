-- The laws that the functions' proofs cite, each file resting on those above it.
pub mod Clipping
pub mod Tracks
pub mod Counting
pub mod Joined
pub mod Checking
pub mod Filling
pub mod Whole
pub mod Operations
pub mod TrackStores
pub mod TrackChecks

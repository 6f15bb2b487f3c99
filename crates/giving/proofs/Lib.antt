-- The laws that the functions' proofs cite, each file resting on those above it.
pub mod TrackNamed
pub mod ItemsGiven
pub mod Seeking
pub mod EntriesGiven

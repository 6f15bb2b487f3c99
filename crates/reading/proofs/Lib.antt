-- The laws that the functions' proofs cite, each file resting on those above it.
pub mod Frames
pub mod TrackMade
pub mod OneTop
pub mod AllTops
pub mod Files
pub mod Filling
pub mod TopRows
pub mod Accepted
pub mod AllRows
pub mod FileRows
pub mod Stated
pub mod Whole
pub mod FileRefusals
pub mod Performed
pub mod Tiling
pub mod Finding
pub mod OneResult

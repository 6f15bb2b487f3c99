-- The theorems, and the laws below them, each file resting on those above it.
pub mod Gaps
pub mod PlainItems
pub mod PlainPlays
pub mod Streams
pub mod PlainReads
pub mod NamedTracks
pub mod Performances
pub mod PlainTracks
pub mod Flattening

-- The definitions of this crate, each file over those above it.
pub mod Spans
pub mod Reaching
pub mod Again
pub mod Taking

-- The definitions of this crate, each file over those above it.
pub mod Apart
pub mod Stages

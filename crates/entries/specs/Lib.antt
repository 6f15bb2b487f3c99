-- The definitions of this crate, each file over those above it.
pub mod Rows
pub mod Places
pub mod Rules

-- The laws that the functions' proofs cite, each file resting on those above it.
pub mod Decimals
pub mod Numbers
pub mod Names
pub mod Pitches
pub mod Lines
pub mod Rowing
pub mod Tops
pub mod Firsts
pub mod Heard
pub mod Listings
pub mod Theorems

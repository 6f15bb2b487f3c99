-- The theorems, and the laws below them, each file resting on those above it.
pub mod Agreement
pub mod Exact
pub mod Durations
pub mod Controls
pub mod Systems
pub mod Events
pub mod Timed
pub mod Items
pub mod Reached
pub mod Faulty
pub mod ExactByte

pub mod Isolated
pub mod WithIndex
pub mod Weaker
pub mod Seen

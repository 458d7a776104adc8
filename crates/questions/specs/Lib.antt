pub mod Counts
pub mod Find

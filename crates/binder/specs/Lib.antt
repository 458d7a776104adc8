pub mod Counting
pub mod Week
pub mod Counts

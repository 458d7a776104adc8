pub mod CountedOnce
pub mod Cells
pub mod Adding
pub mod Sums
pub mod Rows
pub mod Reported

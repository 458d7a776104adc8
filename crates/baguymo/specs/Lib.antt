pub mod Widths
pub mod Parts

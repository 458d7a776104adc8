pub mod Progress
pub mod Ticks

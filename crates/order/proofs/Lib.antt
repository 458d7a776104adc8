pub mod Sweep
pub mod Claims
pub mod Facts

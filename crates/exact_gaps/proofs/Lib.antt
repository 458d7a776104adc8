pub mod Signed
pub mod Ways
pub mod ExactGaps

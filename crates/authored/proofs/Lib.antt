pub mod Outputs
pub mod PrintedRead

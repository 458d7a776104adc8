pub mod Calls
pub mod TakenBack

pub mod LowFirst
pub mod Patterns
pub mod Puts

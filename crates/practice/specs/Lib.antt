pub mod File
pub mod Sections
pub mod Requests
pub mod Practice

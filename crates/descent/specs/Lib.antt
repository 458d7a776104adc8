pub mod Descent
pub mod Entry

pub mod Definitions
pub mod Rules
pub mod Stands
pub mod Steps
pub mod Enabled
pub mod Runs

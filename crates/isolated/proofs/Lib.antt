pub mod Stays
pub mod Shown
pub mod Isolation
pub mod WithIndex
pub mod ConditionsNeeded

pub mod Kinds
pub mod Step
pub mod Play
pub mod Start
pub mod Ticking
pub mod Reason
pub mod Cases
pub mod Examples

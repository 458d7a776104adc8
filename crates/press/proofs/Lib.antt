pub mod Proposals
pub mod Pressing

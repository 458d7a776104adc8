pub mod Settled
pub mod Encoded
pub mod FromList

pub mod Offences
pub mod RequestBytes
pub mod WritingNumbers
pub mod Only
pub mod Written

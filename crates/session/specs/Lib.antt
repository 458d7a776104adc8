pub mod Tally
pub mod Report
pub mod Entries
pub mod Balance

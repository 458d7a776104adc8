pub mod Tallies
pub mod LogLines
pub mod Reports
pub mod Balance

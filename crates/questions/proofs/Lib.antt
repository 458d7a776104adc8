pub mod Totals
pub mod NumbersListed
pub mod FindLaws

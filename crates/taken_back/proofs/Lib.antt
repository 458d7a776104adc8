pub mod Starts
pub mod PlayedBehind
pub mod Follows
pub mod GivenBack
pub mod KeptCounts
pub mod Calls

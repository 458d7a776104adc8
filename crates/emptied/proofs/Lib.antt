pub mod OnePress
pub mod Arriving
pub mod Spent
pub mod SamePresses
pub mod Emptying

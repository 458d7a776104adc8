pub mod EachOfList
pub mod Everyone
pub mod OneDesk

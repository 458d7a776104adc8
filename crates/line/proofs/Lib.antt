pub mod AheadInLists
pub mod Line
pub mod CountedOnLine
pub mod Located
pub mod Leaders
pub mod Members
pub mod Orderly
pub mod LineWithin

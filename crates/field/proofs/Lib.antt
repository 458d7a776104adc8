pub mod TestLaws
pub mod NumberLists
pub mod Arrays
pub mod TestParts
pub mod FieldKnown
pub mod Shapes
pub mod Chains
pub mod ArrivalLaws

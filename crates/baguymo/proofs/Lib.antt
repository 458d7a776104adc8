pub mod Narrowed
pub mod NarrowedCalls
pub mod NarrowedParts

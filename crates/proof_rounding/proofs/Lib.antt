pub mod CrosswiseEqual
pub mod ExactOperations
pub mod NothingRounded
pub mod OffTheGrid

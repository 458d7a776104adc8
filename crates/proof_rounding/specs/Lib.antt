pub mod Fractions
pub mod NothingRounded
pub mod OffTheGrid

pub mod Decimals
pub mod Digits
pub mod DecimalSizes
pub mod ExactMiles

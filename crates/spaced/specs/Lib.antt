pub mod Spaced
pub mod Printed

pub mod Positions
pub mod Printed

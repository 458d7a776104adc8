pub mod QueueLines
pub mod Fields
pub mod LineSizes
pub mod Printed

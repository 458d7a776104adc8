pub mod Shape
pub mod ByLocation
pub mod AcceptedList
pub mod Back
pub mod Gone
pub mod There
pub mod ListReadBack
pub mod FromList

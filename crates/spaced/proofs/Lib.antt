pub mod PairLines
pub mod SpacingReportSizes
pub mod ExactMiles
pub mod Printed

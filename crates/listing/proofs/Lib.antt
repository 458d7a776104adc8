pub mod ListingKnown
pub mod EntryLines
pub mod ListReportSizes

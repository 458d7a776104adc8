pub mod HistoryKnown
pub mod KeptTested
pub mod MovedUp
pub mod StepNumbers

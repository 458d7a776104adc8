pub mod KeptAfter
pub mod Renamed
pub mod IsolationBack
pub mod KeptNeeded

pub mod BySequence
pub mod Down
pub mod DownWithin
pub mod EntryCounts
pub mod EntryWithin
pub mod Descent
pub mod NeedsCounted
pub mod Entry

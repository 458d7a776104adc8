pub mod EntryBytes
pub mod Walks
pub mod FirstFailing

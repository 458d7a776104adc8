pub mod AnswerSizes
pub mod Logs
pub mod Playing
pub mod PlayedFiles
pub mod LogEntries

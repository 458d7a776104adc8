pub mod PressingKept

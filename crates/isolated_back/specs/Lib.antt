pub mod IsolatedBack
pub mod Weaker

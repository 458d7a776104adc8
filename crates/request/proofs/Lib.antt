pub mod InputTests
pub mod Rules
pub mod ByKind

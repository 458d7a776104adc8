pub mod BranchTests
pub mod SameBytes
pub mod AcceptedFile
pub mod Requests
pub mod FileReadBack
pub mod Meaning

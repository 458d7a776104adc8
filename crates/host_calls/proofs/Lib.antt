pub mod Held
pub mod Button
pub mod WithinAfterCalls
pub mod OnTheBytes
pub mod FromStart
pub mod CallLists
pub mod ExactFromStart

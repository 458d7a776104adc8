pub mod HostCalls
pub mod FromStart

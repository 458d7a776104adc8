pub mod Demand
pub mod Exact

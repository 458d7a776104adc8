pub mod Runs
pub mod Unstuck
pub mod Demand
pub mod Flights
pub mod Exact

pub mod Lists
pub mod Airspace

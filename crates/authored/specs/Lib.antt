pub mod Authored

pub mod Finder

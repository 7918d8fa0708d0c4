pub mod Reading
pub mod Parsing
pub mod Outcome

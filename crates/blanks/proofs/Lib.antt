pub mod Skipping
pub mod Turns

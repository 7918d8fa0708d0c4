pub mod Relating
pub mod Steps

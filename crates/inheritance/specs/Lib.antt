pub mod Inheritance
pub mod Steps

pub mod Interning
pub mod Steps

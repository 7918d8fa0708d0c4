pub mod Placing
pub mod Starts

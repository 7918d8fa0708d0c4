pub mod Framing
pub mod Together

pub mod Room
pub mod Framing

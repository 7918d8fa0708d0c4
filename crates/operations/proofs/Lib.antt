pub mod Cases
pub mod Sized

pub mod Turns
pub mod Cut
pub mod Boundary
pub mod Agree
pub mod Join

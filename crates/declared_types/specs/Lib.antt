pub mod Storing
pub mod Promise

pub mod Preparing
pub mod Bound

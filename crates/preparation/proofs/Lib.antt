pub mod Filling
pub mod Classes
pub mod Counting
pub mod Preparing
pub mod Checking

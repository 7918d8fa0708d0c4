pub mod Comparing
pub mod Compared

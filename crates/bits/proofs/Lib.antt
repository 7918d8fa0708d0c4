pub mod Strings
pub mod Rows

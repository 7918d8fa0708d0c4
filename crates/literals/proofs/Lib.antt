pub mod Numerals
pub mod Strings

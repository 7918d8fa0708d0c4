pub mod ByteSets
pub mod Rows
pub mod Symbols
pub mod Tokens
pub mod Words

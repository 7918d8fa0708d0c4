pub mod Entries
pub mod Tables
pub mod Adding
pub mod Orders
pub mod Symbols

pub mod Columns
pub mod Entries
pub mod Parts

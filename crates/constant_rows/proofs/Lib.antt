pub mod Numbering
pub mod Grouping

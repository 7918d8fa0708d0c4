pub mod Numbering
pub mod Parts

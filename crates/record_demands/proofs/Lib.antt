pub mod Enough
pub mod Columns
pub mod Theorem
pub mod Cutting

pub mod Rows
pub mod Related

pub mod Terminals
pub mod Laws
pub mod Steps
pub mod Limit
pub mod Columns

pub mod Rows
pub mod Nodes
pub mod Literals
pub mod Assembled

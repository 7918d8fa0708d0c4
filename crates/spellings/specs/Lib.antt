pub mod Hash
pub mod Blocks

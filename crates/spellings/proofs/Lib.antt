pub mod Spellings
pub mod Blocks

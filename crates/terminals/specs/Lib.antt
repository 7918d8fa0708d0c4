pub mod Lookup
pub mod Spellings

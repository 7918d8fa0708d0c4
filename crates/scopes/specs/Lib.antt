pub mod Entries
pub mod Standing
pub mod Preparation
pub mod LookUp
pub mod Range
pub mod NoneFrom

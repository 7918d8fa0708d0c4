pub mod Fault
pub mod Names
pub mod Scope

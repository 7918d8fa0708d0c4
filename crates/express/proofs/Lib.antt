pub mod Tokens
pub mod Syntax
pub mod Names
pub mod Semantics
pub mod Whole
pub mod Theorems

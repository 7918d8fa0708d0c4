pub mod Tokens
pub mod Syntax
pub mod Semantics
pub mod Whole

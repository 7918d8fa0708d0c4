pub mod Operators
pub mod Operands

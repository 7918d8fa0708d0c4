pub mod Places
pub mod Reply
pub mod Encoded
pub mod Operands

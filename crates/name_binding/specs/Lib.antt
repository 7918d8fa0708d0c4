pub mod Prepared
pub mod Binding

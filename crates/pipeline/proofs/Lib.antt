pub mod Naming
pub mod Binding

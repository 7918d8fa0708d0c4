pub mod Pass
pub mod TypeName
pub mod Binding

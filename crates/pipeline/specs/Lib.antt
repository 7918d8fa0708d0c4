pub mod NameStage
pub mod Binding

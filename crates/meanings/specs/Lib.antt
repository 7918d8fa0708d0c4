pub mod Use
pub mod Finding
pub mod Node

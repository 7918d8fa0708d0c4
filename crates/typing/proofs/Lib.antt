pub mod Nodes
pub mod Assembled
pub mod Walking
pub mod Constants
pub mod Loose

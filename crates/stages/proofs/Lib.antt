pub mod Bounds
pub mod Counting
pub mod Laws
pub mod Straight
pub mod Nodes

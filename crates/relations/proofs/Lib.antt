pub mod Order
pub mod Reach
pub mod Select
pub mod Topological

pub mod Ranking
pub mod Reached
pub mod Storing
pub mod Chaining
pub mod Parts
pub mod Relating
pub mod Inheriting

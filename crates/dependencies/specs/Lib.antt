pub mod Target
pub mod Graph
pub mod Arrangement

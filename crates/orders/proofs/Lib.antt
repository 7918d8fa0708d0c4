pub mod Placing
pub mod Sorting

pub mod Passing
pub mod Sorting
pub mod Items
pub mod Whole
pub mod Apart
pub mod Declaring
pub mod Examples

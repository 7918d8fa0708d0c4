pub mod Weight
pub mod Total
pub mod Bounds
pub mod Roles
pub mod Consistent
pub mod Constants

pub mod Passes
pub mod TypeNames
pub mod Examples

pub mod NoString
pub mod Operations
pub mod Assembled
pub mod Walking

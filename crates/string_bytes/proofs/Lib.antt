pub mod Writing
pub mod Walking
pub mod Reading

pub mod Offsets
pub mod Offsetting
pub mod Collecting

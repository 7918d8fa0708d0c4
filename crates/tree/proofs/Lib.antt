pub mod Children
pub mod Next
pub mod Blocks

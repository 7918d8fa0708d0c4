pub mod Pieces
pub mod Strings
pub mod Numbers
pub mod Lines
pub mod Walk
pub mod Whole
pub mod Lengths

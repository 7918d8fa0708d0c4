pub mod Numbering
pub mod Starting
pub mod Written
pub mod Parted
pub mod Schemas
pub mod Known

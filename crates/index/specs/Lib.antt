pub mod Room
pub mod Bucket
pub mod Dictionary
pub mod Link

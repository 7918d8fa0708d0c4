pub mod Buckets
pub mod Search
pub mod Entries
pub mod Examples

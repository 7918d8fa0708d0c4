pub mod Acceptance
pub mod Case
pub mod Listing
pub mod Reply

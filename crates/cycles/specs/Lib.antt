pub mod State
pub mod Component
pub mod Search
pub mod Step
pub mod Answer

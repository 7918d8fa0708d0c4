pub mod Chains
pub mod Rounds
pub mod Steps

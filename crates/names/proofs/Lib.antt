pub mod Fitting
pub mod Resolving

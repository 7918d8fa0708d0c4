pub mod Leaves
pub mod Values
pub mod Operations
pub mod Strings
pub mod Expressions
pub mod Answers

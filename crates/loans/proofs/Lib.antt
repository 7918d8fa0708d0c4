pub mod Loans
pub mod Passing

pub mod Laws
pub mod Clauses

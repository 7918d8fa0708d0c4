pub mod OrderTest
pub mod KindCases

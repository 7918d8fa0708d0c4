pub mod Set
pub mod Grammar
pub mod Rows
pub mod Trees
pub mod Parse
pub mod Check
pub mod Depth
pub mod Descent

pub mod Grammar
pub mod Lookahead
pub mod NodeKind
pub mod Syntax
pub mod Tree

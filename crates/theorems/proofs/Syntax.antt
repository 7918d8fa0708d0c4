pub mod Renaming
pub mod DeclarationSpan

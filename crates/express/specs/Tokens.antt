pub mod Blank
pub mod Bytes
pub mod Cut
pub mod Lexis
pub mod Scanned
pub mod Spelling
pub mod Terminal
pub mod Token

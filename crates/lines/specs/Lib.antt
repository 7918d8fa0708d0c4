pub mod Piece
pub mod Print

pub mod Answers
pub mod Kits
pub mod Pieces

-- Laws of table text.
pub mod Pieces
pub mod Calls

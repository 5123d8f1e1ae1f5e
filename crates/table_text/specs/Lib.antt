-- What stands in a table text, word by word.
pub mod Pieces

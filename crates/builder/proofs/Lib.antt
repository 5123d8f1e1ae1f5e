-- Laws of the words of a level.
pub mod Above
pub mod InWords
pub mod Named

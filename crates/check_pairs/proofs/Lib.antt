-- Laws of references and exponents in lines, of the representations of a level, and of all levels.
pub mod Columns
pub mod Pairs
pub mod Blocks
pub mod Levels
pub mod Claimed

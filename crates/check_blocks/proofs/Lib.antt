-- Laws of the blocks of a representation, and of the squares of the degrees of a level.
pub mod Blocks
pub mod Levels
pub mod Squares

-- The blocks of a representation, and the squares of the degrees of a level.
pub mod Blocks
pub mod Squares

-- What the lines of level 1 are.
pub mod Roots

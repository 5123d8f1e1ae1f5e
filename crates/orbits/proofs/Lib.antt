-- Laws of the blocks of an orbit.
pub mod Blocks
pub mod Sides
pub mod Along

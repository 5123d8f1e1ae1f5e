-- What the blocks of an orbit are known by, and the two sides of an intertwiner's equation there.
pub mod Blocks
pub mod Sides

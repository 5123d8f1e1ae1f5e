-- The power relation of the generator on top, and the value of its word.
pub mod Value
pub mod Power

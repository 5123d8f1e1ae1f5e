-- Laws of the words of level 1.
pub mod Lines
pub mod Level

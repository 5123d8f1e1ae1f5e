-- Laws of a level that is compared with the level below.
pub mod Compared
pub mod Lines
pub mod Level

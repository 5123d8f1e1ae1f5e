-- Laws of the lines of a presentation text.
pub mod Naming
pub mod Heads
pub mod Words
pub mod Pairs
pub mod Rows
pub mod Reading

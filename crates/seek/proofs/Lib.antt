-- Laws of finding representations.
pub mod Halves
pub mod Seek
pub mod Stored
pub mod Among
pub mod Columns
pub mod Walk

-- Laws of writing table text.
pub mod Writes
pub mod Calls

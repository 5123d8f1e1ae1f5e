-- Laws of lines.
pub mod Written
pub mod Appending

-- Laws of the tests of lines.
pub mod Lines
pub mod Rows

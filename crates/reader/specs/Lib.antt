-- What stands at the lines of a presentation text, and what is kept of them.
pub mod Lines
pub mod Rows

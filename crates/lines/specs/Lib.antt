-- What is written as lines.
pub mod Lines

-- What is asked of the lines of one representation.
pub mod Lines

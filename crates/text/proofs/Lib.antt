-- Laws of reading and writing a value.
pub mod Reading
pub mod Writing
pub mod Trail

-- What reading and writing a value mean.
pub mod Reading
pub mod Writing

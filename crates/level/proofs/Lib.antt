-- Laws of what stands in lines.
pub mod Columns
pub mod Matrices
pub mod Laps

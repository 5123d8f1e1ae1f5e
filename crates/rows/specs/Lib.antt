-- What rows of exponents say.
pub mod Rows

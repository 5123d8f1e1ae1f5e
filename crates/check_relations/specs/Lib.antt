-- What is asked of the representations of a table.
pub mod Asked

-- Laws of the relations in single columns.
pub mod Carrying

-- The relations of the generator on top, in single columns.
pub mod Relates

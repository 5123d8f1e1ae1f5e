-- Laws of conditions on all representations of a table.
pub mod Everywhere

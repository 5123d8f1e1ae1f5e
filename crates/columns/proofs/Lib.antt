-- One column moved through products of matrices.
pub mod Columns
pub mod Conditions
pub mod Inverses
pub mod Powers

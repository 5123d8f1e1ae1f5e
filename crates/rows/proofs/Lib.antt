-- Laws of rows.
pub mod Pairs
pub mod Forms
pub mod Parts
pub mod Said

-- The closed formulas are the steps.
pub mod Entries
pub mod Extended
pub mod Induced
pub mod Scalar
pub mod Closed
pub mod Table
pub mod Sources

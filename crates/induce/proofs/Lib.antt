-- Laws of induced representations.
pub mod Cases
pub mod Cells
pub mod Generators

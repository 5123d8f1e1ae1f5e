-- Laws of representations of degree 1.
pub mod Single
pub mod Power

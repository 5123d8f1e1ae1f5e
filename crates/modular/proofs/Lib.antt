-- Laws of sums and differences modulo m.
pub mod Reduction

-- The laws of monomial matrices.
pub mod Exponents
pub mod Maps
pub mod Schur
pub mod Over
pub mod Residues
pub mod Frames

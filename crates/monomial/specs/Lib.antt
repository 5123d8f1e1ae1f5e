-- What the theory of monomial matrices needs beside the definitions of the specification.
pub mod Exponents
pub mod Maps
pub mod Families
pub mod Over
pub mod Frames

-- The few definitions that the theory of normal forms needs beside those of the specification.
pub mod Models
pub mod Context

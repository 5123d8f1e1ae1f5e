-- Laws that the proofs of the functions cite.
pub mod Values
pub mod Answers
pub mod Relations

-- Laws of cases, of sums over buffers, of words in bytes, and of the part of a buffer that is lent.
pub mod Cases
pub mod Mixed
pub mod Parsed
pub mod Part

-- Cases of an input, sums over buffers, words in bytes, and the part of a buffer that is lent.
pub mod Cases
pub mod Mixed
pub mod Parsed
pub mod Part
pub mod Walk

-- What examining a presentation text leaves.
pub mod Accepted

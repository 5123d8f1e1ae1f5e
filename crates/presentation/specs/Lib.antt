-- What reading a presentation text leaves.
pub mod Outcome

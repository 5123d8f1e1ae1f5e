-- What the contracts of the consistency test say.
pub mod Images
pub mod Answers
pub mod Level

-- Laws of the answer to a presentation text.
pub mod Answered

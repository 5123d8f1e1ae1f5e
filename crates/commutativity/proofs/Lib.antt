-- Laws of what is told of a presentation text.
pub mod Ones

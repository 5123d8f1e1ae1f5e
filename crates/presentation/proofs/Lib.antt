-- Laws of reading a presentation.
pub mod Judged

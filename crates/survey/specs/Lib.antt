-- A level that stands in words, and what is noted of it.
pub mod Notes
pub mod Below

-- Laws of a level that stands in words, and of what is noted of it.
pub mod Notes
pub mod Level
pub mod Firsts
pub mod Marking
pub mod Counting

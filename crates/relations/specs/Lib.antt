-- A representation that stands in lines, what the code holds of a presentation, and the tests of its relations.
pub mod Kept
pub mod Said
pub mod Tests

-- Laws of building the table of a sound presentation.
pub mod Built

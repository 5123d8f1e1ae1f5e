-- Laws of representations whose lines hold matrices, and of their relations and intertwiners.
pub mod Kept
pub mod Said
pub mod Relations
pub mod Intertwiners
pub mod Single

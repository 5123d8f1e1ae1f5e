-- Laws of the numbers that a result stands for.
pub mod Numbers

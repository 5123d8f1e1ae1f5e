-- Laws of claims.
pub mod Marks
pub mod Claims

-- Laws of reading table text.
pub mod Forms
pub mod Calls

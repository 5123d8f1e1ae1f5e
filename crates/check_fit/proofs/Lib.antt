-- Laws of the quick yes.
pub mod First
pub mod Levels
pub mod Yes

-- Laws of marks, of lines and of representations of level 1.
pub mod Marks
pub mod Lines
pub mod Found
pub mod First

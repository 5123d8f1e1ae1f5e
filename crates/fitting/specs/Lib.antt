-- What is asked of a level that is compared with the level below.
pub mod Fits
pub mod First

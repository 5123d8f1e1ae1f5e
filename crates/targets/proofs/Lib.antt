-- Laws of constants and targets.
pub mod Targets

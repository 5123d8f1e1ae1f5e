-- Where intertwiners lead extensions.
pub mod Reached

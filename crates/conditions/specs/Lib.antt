-- What the conditions on kept rows say.
pub mod Conditions
pub mod Size

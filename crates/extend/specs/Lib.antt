-- What the lines of extensions are.
pub mod Extending

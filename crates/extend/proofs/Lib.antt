-- Laws of extensions.
pub mod Extensions

-- What an induced representation is made with.
pub mod Inducing

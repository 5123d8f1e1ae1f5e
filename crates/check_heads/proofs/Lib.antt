-- Laws of the walk over heads.
pub mod Places

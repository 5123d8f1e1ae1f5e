-- What the representations of a level claim of the level below.
pub mod Claims

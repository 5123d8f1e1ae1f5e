-- Rows whose commutator words are empty.
pub mod Empty

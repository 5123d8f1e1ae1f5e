-- Signed numbers, and rounds.
pub mod Signs

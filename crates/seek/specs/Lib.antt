-- Representations that are found in a whole table.
pub mod Seek
pub mod Formed
pub mod Among
pub mod Walk
pub mod Going

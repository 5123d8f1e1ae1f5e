-- Calls on lent parts of buffers.
pub mod Lent

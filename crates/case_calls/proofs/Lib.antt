-- Laws of calls on lent parts of buffers.
pub mod Lent

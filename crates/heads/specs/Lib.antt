-- The heads of a table's lines, in order and walked.
pub mod Heads
pub mod Walk
pub mod Form
pub mod Order

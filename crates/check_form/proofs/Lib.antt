-- Laws of what refusal 21 asks.
pub mod Blocks
pub mod Form

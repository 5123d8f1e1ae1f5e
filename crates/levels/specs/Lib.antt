-- The words of the first levels, the frame of the next, and what building all levels asks.
pub mod Built
pub mod Given
pub mod Climbing

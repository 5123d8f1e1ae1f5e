-- What a level is made of, what it asks, and what it leaves.
pub mod Above
pub mod Level

-- What is asked of a level, and what is known of it then.
pub mod Lines
pub mod Level

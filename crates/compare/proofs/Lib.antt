-- Laws of comparing.
pub mod Shifted
pub mod Staged
pub mod Blocks
pub mod Stored

-- A representation compared with those of the level below.
pub mod Shifted
pub mod Staged
pub mod Blocks

-- Theorems about the definitions.
pub mod Groups
pub mod Refusals
pub mod Rendering
pub mod Starred
pub mod Unique

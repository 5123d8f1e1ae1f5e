-- A level that fits on one that stands, stands.
pub mod Parts
pub mod Spots
pub mod Round
pub mod Scales
pub mod Places
pub mod Closing
pub mod Raise
pub mod Shown
pub mod Passes
pub mod First

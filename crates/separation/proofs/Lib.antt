-- The decision of separation.
pub mod Blocks
pub mod Foreign
pub mod Cutting
pub mod Restricted
pub mod Numbers
pub mod Decision
pub mod Walk
pub mod Pairs
pub mod Apart
pub mod Own
pub mod Within
pub mod Relations
pub mod Verdict

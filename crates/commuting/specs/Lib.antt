-- Which generators commute.
pub mod Commuting

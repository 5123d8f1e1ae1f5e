-- What the decision of separation needs.
pub mod Blocked
pub mod Fair
pub mod Restricting
pub mod Decision
pub mod Relations
pub mod Apart

-- What one step up the chief series needs.
pub mod Extension
pub mod Stands
pub mod Passing
pub mod Accepted
pub mod Ready

-- The levels of the steps, as they stand in words, one behind the other.
pub mod Places
pub mod Room
pub mod Words
pub mod Distinct
pub mod Standing
pub mod Next
pub mod Cycles
pub mod First
pub mod Climb
pub mod Stated
pub mod Stages

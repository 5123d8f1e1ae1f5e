-- What stands in lines, and laps of an entry.
pub mod Stored
pub mod Laps

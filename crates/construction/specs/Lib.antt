-- What building the table of a sound presentation leaves.
pub mod Sized

-- Laws that the kit lacks, about the functions of the definitions that are not of one subject.
pub mod Bools
pub mod Lists
pub mod Tested
pub mod Passed
pub mod Iterates
pub mod Prime
pub mod Searches
pub mod Orbits
pub mod Sums
pub mod Blocks
pub mod Pigeonhole

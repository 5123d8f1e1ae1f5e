-- Proofs that belong to no one function.
pub mod Calls  -- from the answers of the three calls to that of the program

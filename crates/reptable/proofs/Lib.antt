-- Proofs that belong to no one function.
pub mod Values  -- the values of the table of an accepted presentation
pub mod Lengths  -- how long the text of a table is
pub mod Finished  -- the table of a finished build is always written
pub mod Calls  -- from the answers of the two calls to that of the program
pub mod Checked  -- what is printed passes the check of the program repcheck

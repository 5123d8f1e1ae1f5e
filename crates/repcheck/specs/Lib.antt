-- What the contracts of the program cite.
pub mod Judged  -- what is made of a table text

-- What the contracts of the program cite.
pub mod Tabulated  -- what is made of a presentation text

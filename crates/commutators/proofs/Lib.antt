-- Laws of the scan over commutator words.
pub mod Scan

-- What is asked of pairs of representations in lines.
pub mod Pairs

-- Laws of the conditions on kept rows.
pub mod Primes
pub mod Conditions

-- Normal forms as a group, from the laws of powers to the decision of consistency. Generators are numbered from 0.
pub mod Values
pub mod Clauses
pub mod Sound
pub mod Cyclic
pub mod Level
pub mod Units
pub mod Group
pub mod Order
pub mod Conjugation
pub mod Free
pub mod Tests
pub mod Accept
pub mod Rows
pub mod Pairs
pub mod Context
pub mod Commutative
pub mod Central

-- The heads of a table's lines decide whether it is complete.
pub mod Positions
pub mod Headed
pub mod Complete
pub mod Walk
pub mod Going
pub mod Form
pub mod Order
pub mod Cutting

-- What stands in a table text that is read.
pub mod Forms

-- Columns that are moved, and conditions told column by column.
pub mod Columns

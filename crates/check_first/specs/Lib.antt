-- Level 1 as it stands in lines.
pub mod First

-- What checking words for a sound presentation answers.
pub mod Checked

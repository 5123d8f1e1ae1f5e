-- Laws of the check of words for a sound presentation.
pub mod Checked

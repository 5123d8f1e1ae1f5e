-- What a quick yes asks and says.
pub mod Fit

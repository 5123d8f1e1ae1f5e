-- Laws of the size of a sound presentation, and of its measure.
pub mod Sizes
pub mod Measured

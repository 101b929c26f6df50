-- Laws of runs of bytes and of numbers, and samples of the definitions.
pub mod Runs
pub mod Samples
pub mod Values
pub mod Words

-- Laws of runs and of what is printed, how a listing starts and how long it is, and listings computed by the definition.
pub mod Listed
pub mod Lowest
pub mod Runs
mod Samples
pub mod Sizes
pub mod Starts
pub mod StepLines
pub mod Texts

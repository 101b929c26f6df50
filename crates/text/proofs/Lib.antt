-- Laws of reading a text, of its records and of the code that reads it, and samples.
pub mod Accepted
pub mod Answered
pub mod Below
mod Carried
mod Final
mod Fitting
mod Following
pub mod Inserted
pub mod Joined
mod Kept
mod Labels
mod Loop
pub mod Maps
mod Samples
pub mod Sets
pub mod Statements
mod Taken
mod Turns
mod Whole

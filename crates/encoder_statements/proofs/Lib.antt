-- Laws of the kinds that have one value for each statement, and of those that only statements of a class have.
pub mod Values
pub mod Members
pub mod Listed

-- Evaluation finds what the definition of a table's values says.
pub mod Backwards
pub mod Choices
pub mod Evaluated
mod Halves
mod Parsed
pub mod Tables
mod Turns
pub mod Views
pub mod Words

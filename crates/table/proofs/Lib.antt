-- Laws of tables and programs, which the crates above cite.
pub mod Sequences
pub mod Renamed
pub mod Meaning
pub mod Passing
pub mod Written
pub mod Numbered
pub mod Sorted
pub mod Counted
pub mod Ordered
pub mod Read
pub mod Repeated

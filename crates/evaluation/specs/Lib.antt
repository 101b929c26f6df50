-- A table's values as numbers, in the bytes behind the table's own.
pub mod Evaluations

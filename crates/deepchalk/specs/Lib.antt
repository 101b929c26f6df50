-- The boundary: an answer as one number.
pub mod Packed

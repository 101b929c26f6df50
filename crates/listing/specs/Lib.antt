-- What the listing program prints for a set text.
pub mod Texts

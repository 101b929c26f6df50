-- The reader of a text (document 01, "Set text").
pub mod Readers

-- The lines of a set text (document 01, "Set text").
pub mod Characters
pub mod Lines

-- The kinds of marks.
pub mod Marked

-- The table of a set, a map and a bound (docs/TABLE.md). A reader of the calls believes Assignments; the others serve the code.
pub mod Assignments
pub mod Checkpoints
pub mod Slots
pub mod Steps
pub mod Encodings

-- The size of a table in closed form (docs/TABLE.md, "The size"), and the checkpoints seen while it is counted.
pub mod Sizes
pub mod Seen

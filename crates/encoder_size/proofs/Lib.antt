-- Sums, and the sizes of programs, of a step's blocks, of steps and of tables; checkpoints noted as seen.
pub mod Sums
pub mod Counted
pub mod Blocks
pub mod Flags
pub mod Steps
pub mod Tables
pub mod Parts
pub mod Seen

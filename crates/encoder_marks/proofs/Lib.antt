-- Laws of the kinds of marks, and of the blocks of checkpoints written one value after the other.
pub mod Blocks
pub mod Marked

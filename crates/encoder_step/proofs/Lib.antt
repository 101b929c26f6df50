-- Laws of values, blocks and steps.
pub mod Loops
pub mod Given
pub mod Sequence
pub mod Constraint

-- Laws of the machine's definitions, which the proofs of this crate and of those above cite.
pub mod Four
pub mod Groups
pub mod Loads
pub mod Marked
pub mod Marks
pub mod Runs
pub mod Permitted

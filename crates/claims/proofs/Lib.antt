-- The proofs of the demands that specs/ states.
pub mod Cases
pub mod Cells
pub mod Checkpoints
pub mod Explored
pub mod Formed
pub mod Lines
pub mod Lookups
pub mod Marks
pub mod Models
pub mod Refusals
pub mod Rules
pub mod Runs
mod Samples
pub mod Sections
pub mod Tables
pub mod Texts

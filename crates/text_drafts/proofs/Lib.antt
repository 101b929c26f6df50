-- The laws that this crate's proofs cite.
pub mod Blocks
mod Parts
mod Labels

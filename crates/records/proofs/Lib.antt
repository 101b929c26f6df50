-- Laws of statement and map records that the proofs of this crate and of those above it cite.

mod Counts
pub mod Layouts
pub mod Maps
pub mod Places
mod Samples
pub mod Sets
pub mod StatementRecords
mod Words

-- The general laws that the proofs of every crate cite.
pub mod Below
pub mod Bytes
pub mod Choice
pub mod Factors

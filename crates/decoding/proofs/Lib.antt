-- Laws of models and of what decoding gives.
pub mod Assigned
pub mod Below
pub mod Cells
pub mod Chunks
pub mod FirstReads
pub mod Followed
pub mod Maps
pub mod Runs

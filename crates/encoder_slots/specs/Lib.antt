-- Where a table's values lie while it is written: what the contracts of the crates that write it share.
pub mod Places
pub mod Pieces
pub mod Idle
pub mod Kinds
pub mod Numbered

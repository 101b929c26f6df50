-- Laws of places.
pub mod Rows
pub mod Stores
pub mod Starts
pub mod Pieces
pub mod Entries
pub mod Idle
pub mod Ready
pub mod Matches
pub mod Numbers

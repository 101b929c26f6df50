-- The model check and decoding give what document 01 says.
mod Given
mod Judged
pub mod Satisfied
mod Scheduled
mod Shown
mod Sized

-- Laws of flags written one after the other, and of the lists of jumps.
pub mod Lists
pub mod Written

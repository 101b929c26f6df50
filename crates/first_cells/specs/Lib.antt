-- First cells of a run, and how the code finds them.
pub mod Firsts
pub mod Searches

-- What the values of a kind have for links.
pub mod Entries

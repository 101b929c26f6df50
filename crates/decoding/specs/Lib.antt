-- Models of a table, and what decoding makes of them (document 01, "Records"). A reader of the calls believes this, Lookups apart.
pub mod Decodings
pub mod Lookups
pub mod Models

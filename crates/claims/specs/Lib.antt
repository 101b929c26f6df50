-- The demands as statements about the definitions, each a named type; crate `claims` proves every one.
pub mod Cases
pub mod Lookups
pub mod Marks
pub mod Models
pub mod Runs
pub mod Sections
pub mod Tables
pub mod Texts

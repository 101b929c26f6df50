-- Formula records, tables of them and their values (document 01, "Records"), and the programs that tables are written from. A reader of the calls believes Formulas, Tables and Values; the others serve the code.
pub mod Formulas
pub mod Programs
pub mod Tables
pub mod Values
pub mod Repeats
pub mod Operations

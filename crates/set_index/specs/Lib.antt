-- What is kept of a set while its table is written: checkpoints, members of classes, lists of statements.
pub mod Lists
pub mod Members
pub mod Points
pub mod ListTables

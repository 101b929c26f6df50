-- Laws of a set's checkpoints, of the members of classes, and of lists of statements.
pub mod Contains
pub mod Counted
pub mod Filling
pub mod Growing
pub mod StatementRecords
pub mod Listed
pub mod Making
pub mod Noted
pub mod Past
pub mod ClassNumbers

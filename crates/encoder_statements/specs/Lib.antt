-- The values of one kind written for a thread's statements.
pub mod StatementValues

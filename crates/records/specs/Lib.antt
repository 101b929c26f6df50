-- Instructions, statement records, map records and the numbered refusals (document 01, "Machine", "Records" and "Numbered refusals").
pub mod Instructions
pub mod Maps
pub mod Numbers
pub mod Refusals
pub mod Sets
pub mod StatementRecords

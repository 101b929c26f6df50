-- Laws of records and of trees of few records.
pub mod Records
pub mod Given

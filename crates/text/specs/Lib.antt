-- Set texts: their threads and map, their refusals and their records (document 01, "Set text" and "Numbered refusals").
pub mod Answers
pub mod Drafts
pub mod Readings
pub mod Records
pub mod Sections

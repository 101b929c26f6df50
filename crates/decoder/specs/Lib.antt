-- The model check and decoding: their answers, and the lent memory afterwards.
pub mod Answers

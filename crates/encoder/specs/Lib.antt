-- The calls of the encoder: their answers, and the lent output afterwards. A reader of the calls believes Answers; the others serve the code.
pub mod Answers
pub mod Accepted
pub mod Repeating

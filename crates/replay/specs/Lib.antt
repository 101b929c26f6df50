-- Replay of a trace: its answer.
pub mod Replay

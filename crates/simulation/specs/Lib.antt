-- Simulation by a given schedule: its answer, and its output afterwards.
pub mod Simulation

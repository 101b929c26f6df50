-- The machine of document 01: its state and one step, runs and their ends, runs over a map, and traces. `Held` serves the code.
pub mod Held
pub mod Machine
pub mod Maps
pub mod Offsets
pub mod Runs
pub mod Traces

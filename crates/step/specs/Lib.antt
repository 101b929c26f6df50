-- One step of a machine by value, and runs by a schedule or along a trace: what the crate promises (`Step`, `Runs`). The rest serves the code.
pub mod Acting
pub mod Ends
pub mod Runs
pub mod Step
pub mod Walks

-- Laws of the sparse memory, of one step, and of whole runs.
pub mod Cells
pub mod MapCells
pub mod Runs
pub mod Settled
pub mod Steps
pub mod Stops
pub mod Taken
pub mod Tests

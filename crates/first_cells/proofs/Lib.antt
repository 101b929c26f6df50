-- Laws of first cells: what a run lacks.
pub mod Cells
pub mod Lacking
pub mod Order
pub mod Turns

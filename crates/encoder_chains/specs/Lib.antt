-- A link of a chain as the code gives it, and the values that there is one of.
pub mod Chained
pub mod Given
pub mod Placed

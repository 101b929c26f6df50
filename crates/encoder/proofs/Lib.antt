-- Laws of trees, pieces and sizes.
pub mod Parts
pub mod Sizes
pub mod Accepted
pub mod Repeating

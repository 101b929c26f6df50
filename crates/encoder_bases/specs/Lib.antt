-- A tree of at most four records as the code gives it.
pub mod SmallTrees

-- Laws of values that there is one of, of links and of trees.
pub mod Chained
pub mod Givers
pub mod Leads
pub mod Raised
pub mod Trees

pub mod Orders
pub mod Graphs
pub mod CanonicalLists
pub mod Unique
pub mod Vertices
pub mod WellFormed

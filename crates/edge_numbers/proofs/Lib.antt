pub mod Places
pub mod Vertices
pub mod NarrowEq
pub mod Narrow
pub mod FoundEnds
pub mod States
pub mod Entered

pub mod SoFar
pub mod MarkedTrees

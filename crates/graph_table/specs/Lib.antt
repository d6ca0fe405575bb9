pub mod Table
pub mod Named
pub mod Around
pub mod Chain
pub mod Parts
pub mod ParentIndices
pub mod GraphEdge

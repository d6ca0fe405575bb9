pub mod Vertex
pub mod Edge
pub mod Edit
pub mod Graph
pub mod ActFault
pub mod SpelledEdge
pub mod SpelledEdit

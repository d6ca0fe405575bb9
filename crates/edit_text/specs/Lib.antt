pub mod FaultOfEdge
pub mod Line
pub mod Text
pub mod Whole

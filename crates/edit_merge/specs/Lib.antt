pub mod EditLine
pub mod InParts
pub mod Merged
pub mod Named

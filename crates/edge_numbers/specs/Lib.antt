pub mod Numbered
pub mod Narrow

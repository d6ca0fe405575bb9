pub mod Ranges
pub mod Summary
pub mod Lacking
pub mod Facts
pub mod Text

pub mod Number
pub mod Separated

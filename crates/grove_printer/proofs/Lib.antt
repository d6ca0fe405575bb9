pub mod Extending
pub mod Lines

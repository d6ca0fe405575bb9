pub mod Machine
pub mod Frames

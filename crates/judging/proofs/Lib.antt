pub mod Running
pub mod Kept
pub mod Filling
pub mod Views
pub mod Frames
pub mod Results

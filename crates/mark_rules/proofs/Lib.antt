pub mod Kept
pub mod Walks
pub mod Innermost
pub mod Marks

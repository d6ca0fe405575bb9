pub mod Fit
pub mod Course
pub mod UndoText
pub mod Kept

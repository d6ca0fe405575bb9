mod Checked
pub mod Counted
pub mod Heads
pub mod Reported
pub mod SameGraph
mod Shown
mod TypedTrees
pub mod Written

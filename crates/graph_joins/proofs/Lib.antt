pub mod Raised
pub mod Raises
pub mod Joined
pub mod Merges

pub mod Steps
pub mod Places
pub mod Turned
pub mod Closing
pub mod Turns

mod UnmarkedRows
mod Unmarked
pub mod Typings
mod Places
mod Steps
mod Checked

pub mod BlockJournals
pub mod Boards
pub mod Numbers
pub mod Opened
pub mod Running
pub mod Summarizing

pub mod Entry
pub mod Journal
pub mod Taken
pub mod Legal
pub mod Report
pub mod Alone
pub mod Summary

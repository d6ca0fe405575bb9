pub mod OneJournal
pub mod OneReport
pub mod OneSummary
pub mod Examples
pub mod Brought
pub mod Zipped

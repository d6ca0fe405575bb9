pub mod Added
pub mod Found
pub mod Last
pub mod Listed

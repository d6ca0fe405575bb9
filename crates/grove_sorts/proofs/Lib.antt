pub mod Identifiers
pub mod Orders
pub mod Texts
pub mod Rows
pub mod Truths
pub mod Plains

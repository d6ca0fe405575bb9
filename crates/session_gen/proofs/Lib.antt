pub mod Numerals
pub mod Groups
pub mod MoreLoads
pub mod SessionLines
pub mod GeneratedSession
pub mod Examples
pub mod Values

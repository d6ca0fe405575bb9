pub mod BadLines
pub mod Codes
pub mod Held
pub mod Texts

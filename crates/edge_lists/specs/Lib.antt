pub mod Lists
pub mod Blocks
pub mod Order
pub mod OrderLaws
pub mod Places

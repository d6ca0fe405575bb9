pub mod Sound
pub mod Dealing
pub mod Inferring
pub mod Reporting
pub mod Fails
pub mod Known
pub mod Unasked

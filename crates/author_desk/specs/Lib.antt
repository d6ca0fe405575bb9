pub mod Asks
pub mod Lines
pub mod Turns
pub mod Cuts
pub mod Together

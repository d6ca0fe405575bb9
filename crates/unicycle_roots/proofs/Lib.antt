pub mod Rounds
pub mod Keys

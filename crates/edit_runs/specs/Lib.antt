pub mod Runs
pub mod Stretch
pub mod Gathering

pub mod Counts
pub mod Laws
pub mod Program
pub mod Reports
pub mod Texts

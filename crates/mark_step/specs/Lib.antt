pub mod Scope
pub mod Expression
pub mod Step
pub mod Rows
pub mod Node

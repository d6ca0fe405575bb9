pub mod Rules
pub mod Typed
pub mod Walking

pub mod Words
pub mod Relay
pub mod Infer
pub mod Keep
pub mod Undo
pub mod Json
pub mod Due
pub mod Known

pub mod Words
pub mod Due
pub mod EndingOf
pub mod Known

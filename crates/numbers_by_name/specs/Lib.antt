pub mod ByName
pub mod Pages

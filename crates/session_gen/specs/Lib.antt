pub mod Generated
pub mod Group
pub mod Items
pub mod Parts

pub mod Above
pub mod Parents
pub mod Printed

pub mod Replaced
pub mod Left

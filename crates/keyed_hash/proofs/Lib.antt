pub mod Words
pub mod Left

pub mod Sought
pub mod Gained

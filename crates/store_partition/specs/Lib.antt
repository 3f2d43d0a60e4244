pub mod Sought
pub mod Parts

pub mod Numbered
pub mod Over
pub mod Gone
pub mod Swaps

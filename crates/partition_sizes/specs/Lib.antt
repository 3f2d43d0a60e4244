pub mod Bytes
pub mod Sizes

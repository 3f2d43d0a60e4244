pub mod Added
pub mod Rising
pub mod Bytes
pub mod Found
pub mod Ordered
pub mod Walked

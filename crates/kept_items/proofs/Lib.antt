pub mod Seconds
pub mod Pairs
pub mod Goes
pub mod Stopped
pub mod Walked
pub mod Filled

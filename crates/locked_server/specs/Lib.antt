pub mod Service
pub mod Filled
pub mod Streams
pub mod Causes
pub mod Opening
pub mod Running
pub mod Taking
pub mod Server

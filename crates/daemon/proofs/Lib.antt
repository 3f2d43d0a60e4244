pub mod Exiting
pub mod Announced
pub mod LeftLogs
pub mod Forward
pub mod Headlines

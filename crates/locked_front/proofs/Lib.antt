pub mod Turning
pub mod Telling
pub mod Getting
pub mod Finding
pub mod Ending
pub mod MarkBytes
pub mod Locking

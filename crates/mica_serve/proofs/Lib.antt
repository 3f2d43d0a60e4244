pub mod Opened
mod ValidPorts
pub mod TakenIn
pub mod LentParts
pub mod Meetings
pub mod RunAll

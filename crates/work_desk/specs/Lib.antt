pub mod Desk
pub mod Plays
pub mod Rows

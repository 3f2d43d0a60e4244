pub mod Hands
pub mod Tasks

pub mod About
pub mod Memory
pub mod Secret
pub mod StreamWords
pub mod DaemonWords
pub mod Questions
pub mod ShortWords

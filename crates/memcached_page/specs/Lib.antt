pub mod Shelf
pub mod Course
pub mod Kept
pub mod Exchange
pub mod Talk
pub mod Page
pub mod Examples

pub mod Values
pub mod Refusals
pub mod Shelves
pub mod Written
pub mod Steps
pub mod Carried
mod Flushed
pub mod Courses

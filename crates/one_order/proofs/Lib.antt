pub mod Firsts
pub mod Nexts
pub mod Merged
pub mod Ordered

pub mod Slot
pub mod Place

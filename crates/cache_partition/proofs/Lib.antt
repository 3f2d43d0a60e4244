pub mod Words
pub mod Held
pub mod Leaves
pub mod OneSlot
pub mod Writes

pub mod MarkedPut
pub mod Marking
pub mod Storing
pub mod Ending
pub mod Held

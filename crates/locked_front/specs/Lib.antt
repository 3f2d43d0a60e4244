pub mod Plan
pub mod Counts
pub mod Owned
pub mod Parts
pub mod Returned
pub mod Locks

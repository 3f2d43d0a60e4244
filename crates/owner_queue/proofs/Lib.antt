pub mod Flags
pub mod Ended
pub mod OneSender
pub mod Whole
pub mod Counting
pub mod OnlySender
pub mod Runs
pub mod Worked

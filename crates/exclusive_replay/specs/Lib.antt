pub mod Sent
pub mod LineEnds
pub mod Workers
pub mod Merged
pub mod Run

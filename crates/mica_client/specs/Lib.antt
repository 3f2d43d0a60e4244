pub mod Talk
pub mod Batches
pub mod Cutting
pub mod Answers
pub mod Exchange
pub mod Replied
pub mod FaultText
pub mod MemoryLink

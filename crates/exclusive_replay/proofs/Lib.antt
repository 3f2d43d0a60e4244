pub mod MergedLines
pub mod OneSender
pub mod OwnerRuns
pub mod Fed
pub mod Shares
pub mod RunParts
pub mod Collected

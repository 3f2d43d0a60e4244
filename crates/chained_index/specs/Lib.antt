pub mod ChainEntries
pub mod ChainShape
pub mod ChainChange
pub mod Index
pub mod Unused

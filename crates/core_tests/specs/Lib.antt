pub mod CachePut
pub mod Decisions

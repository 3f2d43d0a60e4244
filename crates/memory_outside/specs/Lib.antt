pub mod SentRoom
pub mod MemoryPorts

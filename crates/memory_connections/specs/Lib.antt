pub mod MemoryLog
pub mod MemoryConnection
pub mod Stage
pub mod MemoryConnections
pub mod MemoryPorts

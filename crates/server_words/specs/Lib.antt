pub mod PortOptions
pub mod PossiblePorts
pub mod AskOptions
pub mod Limits
pub mod Output

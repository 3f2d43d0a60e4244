pub mod Faults
pub mod Script
pub mod Traffic
pub mod PortStates
pub mod Seconds

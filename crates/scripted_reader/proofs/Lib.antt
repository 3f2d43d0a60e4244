pub mod ScriptKeeps
pub mod Settling
pub mod Cuts

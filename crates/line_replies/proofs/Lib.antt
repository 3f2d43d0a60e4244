pub mod Lines
pub mod AllLines
pub mod Parts

pub mod CommandLine
pub mod GenOptions
pub mod Generator
pub mod Summary

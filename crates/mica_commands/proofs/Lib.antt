pub mod ValueLemmas
pub mod CommandLemmas
pub mod GenFacts
pub mod Drawing
pub mod Generating
pub mod Summing

pub mod AskLaws
pub mod CountLaws
pub mod Decided
pub mod DecideLaws
pub mod LeaseLaws
pub mod MeantLaws
pub mod SpaceLaws

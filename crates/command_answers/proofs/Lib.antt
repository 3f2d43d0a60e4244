pub mod AskLaws
pub mod Looking
pub mod Sweeping
pub mod Asking
mod Counting
pub mod Flushing
pub mod ExchangeLaws
pub mod SpellsLaws

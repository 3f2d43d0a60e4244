pub mod FlagLaws
pub mod NextLaws
pub mod MetaLaws
pub mod FitLaws
pub mod AskLaws
pub mod DebugLaws
pub mod ShortLaws
pub mod ReplyLaws

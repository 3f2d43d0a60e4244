pub mod Turn
pub mod Dealing
pub mod Answering
pub mod DealingTotals
pub mod OneEnd

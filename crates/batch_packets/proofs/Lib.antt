pub mod ItemLaws
pub mod RequestLaws
pub mod ReplyLaws
pub mod Walk
pub mod Taking
pub mod Filling

pub mod Untold
pub mod WearLaws

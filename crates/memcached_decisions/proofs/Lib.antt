pub mod Becomings
pub mod GoneLaws
pub mod Values
pub mod SwapLaws

pub mod FirstUnlawful
pub mod Machines
pub mod Moments
pub mod Earlier
pub mod Shared
pub mod Settling
pub mod Judged
pub mod Found

pub mod Parts
pub mod Kept
pub mod Walk
pub mod Left
pub mod Loaded
pub mod GoesOn
pub mod StopAndStart
pub mod Laws

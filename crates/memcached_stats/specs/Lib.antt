pub mod Counted
pub mod Figures
pub mod Stats
pub mod Lines
pub mod Tallies

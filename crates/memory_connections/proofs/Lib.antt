pub mod Marks
pub mod Numbers
pub mod Room
pub mod Pending
pub mod Stages
pub mod Views
pub mod Timing
mod Told
pub mod Seats

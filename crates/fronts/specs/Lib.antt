pub mod Flushes
pub mod Looks
pub mod Answered
pub mod Session
pub mod SeatSession
pub mod Changing
pub mod Placed
pub mod Totals

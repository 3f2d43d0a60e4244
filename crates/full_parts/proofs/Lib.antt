pub mod Answered
mod Refused
mod Rooms
mod Roomy
mod Sums

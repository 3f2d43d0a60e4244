mod Fills
mod Opened
pub mod Named
pub mod Lending
mod Joined
pub mod Counted
pub mod Taken
mod Heard
mod Released
pub mod Ran
mod Streamed
mod RanBeside
mod Faults
mod Came
mod Unheard
mod Bound
mod Stopped

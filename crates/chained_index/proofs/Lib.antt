pub mod Words
pub mod Lists
pub mod Chained
pub mod Filled
pub mod Stays
mod Changed
mod Allowed
mod Calls
mod Walking
mod AsMade
mod UnusedLaws

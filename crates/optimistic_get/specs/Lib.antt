pub mod Loading
pub mod Search
pub mod Gets
pub mod Settled
pub mod Asked

pub mod Connection
pub mod State
pub mod Log
pub mod Calls
pub mod Shares

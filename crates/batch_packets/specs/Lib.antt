pub mod Faults
pub mod Datagram
pub mod BatchGrammar
pub mod ReplyGrammar
pub mod Splitting
pub mod Filling
pub mod Remaining

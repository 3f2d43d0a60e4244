pub mod Messages
pub mod JobEnds
pub mod Worked
pub mod Acked
pub mod AckOrder
pub mod AckEnds

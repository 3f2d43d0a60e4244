pub mod FlushLaws
pub mod WhenLaws
pub mod InOrder
pub mod OneStep
pub mod SeatReads

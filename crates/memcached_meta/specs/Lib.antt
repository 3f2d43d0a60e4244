pub mod Flags
pub mod Lines
pub mod Next
pub mod Asks
pub mod Replies
pub mod Fit
pub mod Short
pub mod Laws

pub mod QueueStand
pub mod QueueFront
pub mod OwnerWork
pub mod Solo

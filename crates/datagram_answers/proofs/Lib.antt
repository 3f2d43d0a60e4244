pub mod RequestsInOrder
pub mod Statuses
pub mod Replying
pub mod SentReplies
pub mod Cut
pub mod OneEnd
pub mod Serving

pub mod FrameReplies
pub mod FrameRequests
pub mod MetaRequests
pub mod Laws
pub mod Lines
pub mod Next
pub mod Replies
pub mod Requests

pub mod Places
pub mod AllElements
pub mod UpTo

pub mod Buckets
pub mod Fields
pub mod Hashes
pub mod ItemWords
pub mod Marks
pub mod PackedBytes
pub mod Sizes
pub mod WordByWord

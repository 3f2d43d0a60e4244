pub mod PlainPartition

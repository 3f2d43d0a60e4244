pub mod Rises
pub mod Found
pub mod Laid
pub mod CacheKept
pub mod Histories
pub mod SameMachine
pub mod CacheLaws
pub mod Short
pub mod StoreLaws
pub mod Stamps
pub mod StampWords
pub mod FateLaws
pub mod CellSums
pub mod BucketSums
pub mod PowersOfTwo
pub mod Runs
pub mod PossibleOptions
mod Touching

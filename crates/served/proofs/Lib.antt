pub mod Order
pub mod CutShort
pub mod Binding
pub mod Among
pub mod OnePartition
pub mod Beside
mod Looked
pub mod PartitionTotals
pub mod ServedBeside
pub mod AllFronts
pub mod Gathered
pub mod SumsUp
pub mod PortRuns
pub mod Whole
pub mod Tabled
pub mod JobCounts
pub mod MadeOf
pub mod FrontEnds

pub mod Others
pub mod Served
pub mod Beside
pub mod Ends
pub mod NetRun
pub mod FrontRuns
pub mod TotalsText

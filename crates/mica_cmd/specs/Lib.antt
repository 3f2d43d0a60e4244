pub mod Headline
pub mod Outside
pub mod Promise
pub mod Input
pub mod CheckParts
pub mod Findings
pub mod Promises
pub mod Exit

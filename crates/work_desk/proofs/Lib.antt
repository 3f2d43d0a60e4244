pub mod RowSteps
pub mod Steps

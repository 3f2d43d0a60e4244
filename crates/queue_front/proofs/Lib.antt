pub mod SoloSteps
pub mod QueueSteps
pub mod Telling
pub mod OwnerSteps

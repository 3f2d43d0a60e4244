pub mod MarkedItem
pub mod InPlace
pub mod LoadedValue
pub mod SpeltItem
pub mod CarriedItem

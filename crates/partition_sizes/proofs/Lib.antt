mod Doubling
pub mod Fitting

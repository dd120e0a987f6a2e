pub mod StoredFit
pub mod Fit

pub mod Merging
pub mod Entering

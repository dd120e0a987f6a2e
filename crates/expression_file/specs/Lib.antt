pub mod ReadFile
pub mod Accepted
pub mod Walk
pub mod Enough
pub mod Numbers
pub mod WrittenFile
pub mod Exchanged

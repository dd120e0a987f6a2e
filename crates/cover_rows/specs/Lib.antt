pub mod Rows
pub mod Blocks
pub mod LowEntries
pub mod Tried
pub mod Holding

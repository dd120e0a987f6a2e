pub mod Entries
pub mod Naming

mod CheckedNodes
pub mod Exchanged
pub mod WrittenFile

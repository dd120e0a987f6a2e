pub mod Entries
pub mod EnterLaws
pub mod EntriesOnce
pub mod TableLaws
pub mod Holders
pub mod HolderLaws
pub mod Keeping

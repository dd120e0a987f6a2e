pub mod EntryColumns

pub mod FilledSchema
pub mod FilledRecords
pub mod FilledLaws

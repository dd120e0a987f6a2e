pub mod Judgement
pub mod Schema
pub mod RecordsLaws
pub mod EntriesLaws
pub mod TableLaws
pub mod Bounds
pub mod Image

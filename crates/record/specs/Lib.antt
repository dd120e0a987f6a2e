pub mod Record
pub mod RecordLaws

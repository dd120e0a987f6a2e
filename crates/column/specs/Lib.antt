pub mod Tables
pub mod TableLaws
pub mod Steps
pub mod StepLaws
pub mod Column
pub mod ColumnLaws
pub mod ColumnBytes

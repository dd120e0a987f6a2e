pub mod Expression
pub mod Rules
pub mod Cell
pub mod Booleans
pub mod Columns
pub mod CellLaws
pub mod TypedCells
pub mod ByAttribute

pub mod ByAttribute
pub mod TypedCells

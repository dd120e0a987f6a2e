pub mod FilledSets
pub mod SetCells

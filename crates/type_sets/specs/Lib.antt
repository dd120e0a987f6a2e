pub mod Sets
pub mod SetLaws
pub mod SetCells
pub mod FilledSets

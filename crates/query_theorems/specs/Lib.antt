pub mod Meaning
pub mod QueryExpressions
pub mod MeaningOnce
pub mod Theorems

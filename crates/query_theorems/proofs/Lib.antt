pub mod QueryExpressions
pub mod Theorems
pub mod OneText

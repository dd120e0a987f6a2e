pub mod Language
pub mod ListLaws
pub mod OperandLaws
pub mod Parts
pub mod PrefixLaws
pub mod Sizes
pub mod Steps

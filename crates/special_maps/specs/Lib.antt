pub mod Special
pub mod SpecialLaws

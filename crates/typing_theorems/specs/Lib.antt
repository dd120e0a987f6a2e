pub mod TableTyped
pub mod Theorems
pub mod Agreement
pub mod Answered
pub mod Witness
pub mod EmptyRecord

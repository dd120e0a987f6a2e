pub mod Characters
pub mod CharacterLaws
pub mod Each
pub mod Put
pub mod Written

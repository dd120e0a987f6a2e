pub mod Specials
pub mod Variables

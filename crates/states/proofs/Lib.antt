pub mod Choice
pub mod ImageFits
pub mod ImageOnce
pub mod Instance
pub mod Members
pub mod Principal
pub mod Reach

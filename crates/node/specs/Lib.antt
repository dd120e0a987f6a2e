pub mod Operators
pub mod ReadNode
pub mod Legal
pub mod Reading
pub mod NodeSequence
pub mod Enough
pub mod NodeBytes

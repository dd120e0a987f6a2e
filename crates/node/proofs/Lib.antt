pub mod Enough
pub mod NodeBytes

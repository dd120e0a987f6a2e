pub mod Formula
pub mod Instantiation
pub mod Plain
pub mod Blocked
pub mod Principal

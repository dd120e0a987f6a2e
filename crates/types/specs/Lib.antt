pub mod Types
pub mod Laws
pub mod Attributes
pub mod Memberships

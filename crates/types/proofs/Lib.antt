pub mod Memberships

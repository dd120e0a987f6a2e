pub mod SchemaMemberships
pub mod WitnessLaws
pub mod MembershipLaws
pub mod Theorems

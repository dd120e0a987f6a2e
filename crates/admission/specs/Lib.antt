pub mod Admission
pub mod AdmissionLaws

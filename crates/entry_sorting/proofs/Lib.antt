pub mod Distinct
pub mod SortedLaws

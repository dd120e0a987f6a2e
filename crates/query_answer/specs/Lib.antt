pub mod QueryNodes
pub mod Faults
pub mod ParseQuery
pub mod ParseLaws
pub mod Numbers

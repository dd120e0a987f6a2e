pub mod Cases
pub mod Holds
pub mod RefusedQueries
pub mod Universal
pub mod Edits

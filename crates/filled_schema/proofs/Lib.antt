mod HoldersResumed
mod RelationsTested
mod Tested
pub mod FilledLaws

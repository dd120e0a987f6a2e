pub mod EntriesLaws
pub mod StandingBits
pub mod SubsetBits

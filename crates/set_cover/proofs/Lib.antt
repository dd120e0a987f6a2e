pub mod Assignments
pub mod BestLaws
pub mod Cheapest
pub mod Covered
pub mod FirstCover
pub mod Remainder
pub mod Shortcuts

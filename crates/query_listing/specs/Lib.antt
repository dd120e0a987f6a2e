pub mod QueryListing
pub mod QueryListingLaws

pub mod ByteMembers
pub mod SubsetList

pub mod ByteMembers

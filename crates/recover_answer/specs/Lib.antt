pub mod Recover
pub mod RecoverLaws
pub mod Numbers
pub mod WorkSpace

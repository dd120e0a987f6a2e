pub mod Apply
pub mod ApplyLaws
pub mod Numbers
pub mod WorkSpace

pub mod AttrSet
pub mod Laws
pub mod Listed

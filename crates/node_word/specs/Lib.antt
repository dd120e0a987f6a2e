pub mod NodeWord

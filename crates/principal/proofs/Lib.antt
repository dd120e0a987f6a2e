pub mod Plain
pub mod Principal

pub mod Edit
pub mod EditLaws
pub mod Numbers

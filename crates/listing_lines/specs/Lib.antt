pub mod Text
pub mod Lines
pub mod LineLaws
pub mod TextLaws
pub mod Example

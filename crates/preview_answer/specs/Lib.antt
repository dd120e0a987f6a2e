pub mod Preview
pub mod PreviewLaws

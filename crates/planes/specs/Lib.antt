pub mod Planes
pub mod PlaneLaws
pub mod Steps
pub mod Storage

pub mod Planning
pub mod ListPlans

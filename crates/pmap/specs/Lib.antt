pub mod MapWithFile
pub mod Performs
pub mod Plan
pub mod PlanPerformed

pub mod Manager
pub mod Performs
pub mod PlanPerformed

pub mod PlanCheck
pub mod PlanReading
pub mod Steps

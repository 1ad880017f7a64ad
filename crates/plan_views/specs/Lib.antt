pub mod PlanViews
pub mod PlanRuns
pub mod Laws

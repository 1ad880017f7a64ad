pub mod PlanChecks

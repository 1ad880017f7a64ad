pub mod DamagedLines
pub mod Headline
pub mod PlanRuns
pub mod RunAnswers
pub mod RunCalls
pub mod RunLaws
pub mod Steps

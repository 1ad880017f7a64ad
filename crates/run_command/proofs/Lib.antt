pub mod CarriedPlans
pub mod DamagedLines
pub mod RunCalls
pub mod RunLaws
pub mod SeenCalls

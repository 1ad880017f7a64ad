pub mod CarriedBack
pub mod TrialCarried
pub mod TrialDraw
pub mod TrialPlans
pub mod Steps

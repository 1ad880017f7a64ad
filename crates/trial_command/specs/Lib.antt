pub mod TrialAnswers
pub mod TrialReport
pub mod TrialRuns
pub mod Steps

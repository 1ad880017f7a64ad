pub mod TrialAnswers
pub mod TrialPlaces
pub mod TrialReport
pub mod TrialRuns
pub mod TrialTold

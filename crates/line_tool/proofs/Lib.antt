pub mod Answered
pub mod PlacesAnswered
pub mod Protected
pub mod ProtectTable
pub mod BundleTable
pub mod PutBack
pub mod UnbundleTable
pub mod TrialEnds

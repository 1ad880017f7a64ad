pub mod ViewText
pub mod Watching
pub mod ViewRuns
pub mod Laws
pub mod Steps

pub mod HandedIn
pub mod Live
pub mod LiveTurns
pub mod LivePairs
pub mod LiveRuns

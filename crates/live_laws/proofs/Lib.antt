pub mod Grown
pub mod GrownText
pub mod Live
pub mod LiveTurns
pub mod MayCome
pub mod LivePairs
pub mod LiveRuns
pub mod Stays

pub mod LineCounts
pub mod Runs
pub mod PartMoves
pub mod TurnTotals
pub mod PipeMoves
pub mod FitEntries
pub mod NextFrames

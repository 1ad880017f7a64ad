pub mod Sums
pub mod PortNumbers
pub mod PieceCounts
pub mod UsedPorts
pub mod PiecesLeft

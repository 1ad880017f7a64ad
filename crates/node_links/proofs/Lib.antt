pub mod Senders
pub mod LinkSteps
pub mod LineFrames
pub mod LinkLaws
pub mod LinkFinds
pub mod EndLines
pub mod Emptied
pub mod ClientPieces

pub mod Links
pub mod Moves
pub mod LinkEnds
pub mod LineFrames
pub mod LineEnds
pub mod Retiring
pub mod Steps

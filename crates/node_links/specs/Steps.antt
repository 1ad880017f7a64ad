-- What private contracts alone cite: the steps of functions. No promise stands on them.
pub mod LineFrames
pub mod LinkMoves
pub mod Retiring

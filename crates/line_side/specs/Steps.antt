-- What private contracts alone cite: the steps of functions. No promise stands on them.
pub mod Reader
pub mod LineMoves
pub mod LineOutput
pub mod Counted

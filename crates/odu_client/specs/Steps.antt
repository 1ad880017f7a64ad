-- What private contracts alone cite: the steps of functions. No promise stands on them.
pub mod Aligner
pub mod Framing
pub mod FramePuts
pub mod FramerSteps

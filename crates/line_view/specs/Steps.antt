-- What private contracts alone cite: the steps of functions. No promise stands on them.
pub mod Watching
pub mod Viewing
pub mod ViewRuns

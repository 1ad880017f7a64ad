-- What private contracts alone cite: the steps of functions. No promise stands on them.
pub mod Channels
pub mod Framed
pub mod Bundled
pub mod Settled

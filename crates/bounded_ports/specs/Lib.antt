pub mod Bounded
pub mod Full

pub mod Places
pub mod Filled
pub mod Names
pub mod Pairs
pub mod Sounds
pub mod Texts
pub mod Turns
pub mod Networks
pub mod Uncut
mod Examples

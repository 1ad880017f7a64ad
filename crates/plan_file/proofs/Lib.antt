pub mod Lists
pub mod Steps
pub mod Places
pub mod Faults
pub mod Texts
pub mod Fitting
pub mod Filled
pub mod SlotNumbers
pub mod Sounds
mod Examples

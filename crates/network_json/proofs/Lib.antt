pub mod Added
pub mod Meeting
pub mod Telling
pub mod Traced
pub mod Values

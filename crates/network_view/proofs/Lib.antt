pub mod Contained
pub mod Lists
pub mod Rounds
pub mod Telling
pub mod Ways
pub mod Whole

pub mod Entries
pub mod Laws
pub mod NetworkText
pub mod Slots
pub mod Steps
pub mod Troubles
pub mod Ways
pub mod Words

mod Counts
mod Cuts
mod Examples
mod Places
mod Reading
mod Slots
mod Spelling
mod Sums
mod Taking
mod Tallies
mod Telling
pub mod Wholes

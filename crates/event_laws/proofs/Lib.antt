mod Words
mod Asked
mod Planned
mod Lines
mod Counts
mod MsiLines
mod TributaryLines
mod InRange

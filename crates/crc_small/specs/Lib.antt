pub mod Changes
pub mod Header
pub mod LongDivision
pub mod Steps

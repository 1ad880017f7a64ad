pub mod BySlots
pub mod Columns
pub mod Groups
pub mod Message
pub mod Payload
pub mod Put
pub mod Steps

pub mod Steps
pub mod History
pub mod Rules
pub mod EightBytes
pub mod Runs
pub mod LastWord
pub mod NextWord

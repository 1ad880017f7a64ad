pub mod Backlog
pub mod Rows
pub mod Source
pub mod Steps

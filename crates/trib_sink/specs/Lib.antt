pub mod Extraction
pub mod Rows
pub mod Following
pub mod Watching
pub mod Sink
pub mod Pairs
pub mod Steps

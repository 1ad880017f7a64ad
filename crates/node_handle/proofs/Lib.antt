pub mod Answering
pub mod Handles
pub mod Values

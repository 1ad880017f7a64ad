pub mod Holding
pub mod Runs
pub mod Few
pub mod Turns
pub mod Telling
pub mod Ends
pub mod Apart

pub mod Parity
pub mod ParityChecks
pub mod Runs
pub mod TwoBefore

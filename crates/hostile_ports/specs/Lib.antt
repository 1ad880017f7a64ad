pub mod Ports
pub mod Outputs

pub mod Ports
pub mod Pieces

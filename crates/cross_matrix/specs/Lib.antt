pub mod Receiving
pub mod Parts
pub mod Pipes
pub mod InTurn
pub mod Steps

pub mod Emitted
pub mod Stream

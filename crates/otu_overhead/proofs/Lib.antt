pub mod Bytes
pub mod Masks
pub mod More
pub mod Sequence

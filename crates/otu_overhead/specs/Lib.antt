pub mod Mask
pub mod Section
pub mod Steps

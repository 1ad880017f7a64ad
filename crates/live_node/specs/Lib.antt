pub mod Served
pub mod Places
pub mod Live
pub mod Kept

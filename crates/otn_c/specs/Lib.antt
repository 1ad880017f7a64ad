pub mod Blocks
pub mod Calls
pub mod Growing
pub mod Isolation
pub mod Lent
pub mod Places
pub mod Version

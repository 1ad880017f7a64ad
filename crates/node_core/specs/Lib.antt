pub mod Growing
pub mod Settling
pub mod Asking
pub mod Steps

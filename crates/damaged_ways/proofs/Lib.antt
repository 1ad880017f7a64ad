pub mod Puts
pub mod Unharmed
pub mod Isolated
pub mod Delivered

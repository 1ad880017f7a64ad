pub mod Ways
pub mod Isolation
pub mod Delivery
pub mod Networks
pub mod Routes
pub mod EndToEnd

pub mod ReadBack
pub mod Handing
pub mod Isolation
pub mod Delivery
pub mod Routes
pub mod EndToEnd

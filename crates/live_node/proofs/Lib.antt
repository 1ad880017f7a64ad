pub mod Calm
pub mod Handing
pub mod Keeping
pub mod Opening
pub mod Served
pub mod Turning

pub mod Apart
pub mod Began
pub mod Opened
pub mod PutEnds
pub mod Turning

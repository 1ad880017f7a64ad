pub mod LineRows
pub mod Rows
pub mod Runs
pub mod Emitted
pub mod Fits
pub mod Bytes
pub mod Msi
pub mod Frames
pub mod Stands
pub mod Ends
mod Pairing
pub mod OwnBytes

pub mod ChannelInput
pub mod BundleStream
pub mod BundleLeft
pub mod Channels
pub mod Steps

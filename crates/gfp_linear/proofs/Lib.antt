pub mod Arrived
pub mod ChannelAreas
pub mod Weaving
pub mod Weaves
pub mod Arriving
pub mod Turns
pub mod Streams

pub mod Adapters
pub mod Listed
pub mod ReadAhead
pub mod SpoiledPorts
pub mod Spoiling
pub mod SystemAnswer

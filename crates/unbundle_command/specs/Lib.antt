pub mod Unbundled
pub mod Receiving
pub mod Unbundling
pub mod UnbundleLeft
pub mod Laws
pub mod Steps

pub mod CalledNetworks
